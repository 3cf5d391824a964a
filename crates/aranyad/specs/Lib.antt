-- The definitions that the contracts of this crate cite, in the order in which they are read.
pub mod Status
pub mod Modes
pub mod Ending
pub mod Written
pub mod Printing
pub mod Loading
pub mod Checking
pub mod Scripts
pub mod Runs
pub mod working
