-- The definitions that the contracts of this crate cite, in the order in which they are read.
pub mod Worlds
pub mod Reasons
pub mod Replies
pub mod Sessions
pub mod Lines
pub mod Stops
pub mod Crashes
pub mod working
