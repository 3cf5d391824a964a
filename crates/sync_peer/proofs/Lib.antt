-- Lemmas behind the contracts.
pub mod WalkFacts
pub mod MissingFacts
pub mod SessionFacts
pub mod SampleFacts
pub mod PlaceLists
mod MessageRows
