-- The definitions that the contracts of this crate cite, in the order in which they are read.
pub mod Admission
pub mod Takes
pub mod Laws
pub mod working
