-- The definitions that the contracts of this crate cite.
pub mod Answers
pub mod Forms
pub mod Applying
pub mod Meant
pub mod Views
pub mod Changes
pub mod Policies
pub mod working
