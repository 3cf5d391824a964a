pub mod Slots
pub mod CutFacts
pub mod Following
pub mod Grown
pub mod Standing
pub mod Searching
pub mod Reading
pub mod MarkFacts
