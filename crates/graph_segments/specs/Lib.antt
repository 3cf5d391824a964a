-- The definitions that the contracts of this crate cite.
pub mod Segments
pub mod working
