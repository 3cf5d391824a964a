-- Lemmas of this crate.
pub mod Evaluating
pub mod Loops
pub mod RoomForms
pub mod Running
pub mod Flows
mod ActingFacts
mod DeedForms
mod ActForms
mod ActionRoomFacts
mod ActionLoops
mod ActArms
mod ActionEnds
mod ListingForms
mod ListingLoops
mod EndingFacts
