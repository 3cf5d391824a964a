-- The definitions that the contracts of this crate cite.
pub mod Calls
pub mod Commits
pub mod Images
pub mod Journal
pub mod Outline
pub mod Ends
pub mod working
