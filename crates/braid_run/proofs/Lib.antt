-- Lemmas behind the contracts.
pub mod RunFacts
pub mod AboveFacts
pub mod KeptFacts
pub mod BatchFacts
pub mod PlacedFacts
pub mod SoundFacts
pub mod FinalFacts
pub mod Appended
pub mod CutFacts
pub mod StandingFacts
pub mod PublishedFacts
mod RunRows
