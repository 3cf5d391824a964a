-- The definitions that the contracts of this crate cite, in the order in which they are read.
pub mod Drafts
pub mod Merging
pub mod Publishing
pub mod Seals
pub mod Acting
pub mod Applying
pub mod working
