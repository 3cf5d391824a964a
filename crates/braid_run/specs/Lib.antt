-- The definitions that the contracts of this crate cite, in the order in which they are read.
pub mod EntryLists
pub mod Runs
pub mod RunOf
pub mod RunAbove
pub mod Places
pub mod States
pub mod Batches
pub mod Soundness
pub mod Published
pub mod Laws
