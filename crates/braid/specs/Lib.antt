-- The definitions that the contracts of this crate cite.
pub mod Lower
pub mod Braids
pub mod Agreeing
pub mod Bases
pub mod working
