-- The definitions that the contracts of this crate cite, in the order in which they are read.
pub mod Kept
pub mod Fronts
pub mod Steps
pub mod Disks
pub mod Messages
pub mod Takes
pub mod Actions
pub mod Calls
pub mod Sessions
pub mod Exchanges
pub mod working
