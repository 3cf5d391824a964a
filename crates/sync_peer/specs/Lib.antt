-- The definitions that the contracts of this crate cite, in the order in which they are read.
pub mod Samples
pub mod Missing
pub mod Messages
pub mod Sessions
pub mod Laws
pub mod working
