-- What the private calls are shown by, step by step.
pub mod Callees
pub mod Endings
pub mod Rooms
pub mod Steps
pub mod Deeds
pub mod ActionRooms
pub mod Acting
pub mod ActionSteps
pub mod Listing
pub mod ListingSteps
pub mod Ending
