-- The definitions that the contracts of this crate cite.
pub mod Laws
pub mod Matching
pub mod Rows
pub mod Sameness
pub mod Stored
pub mod Writes
pub mod working
