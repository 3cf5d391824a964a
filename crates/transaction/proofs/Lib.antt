-- Lemmas behind the contracts.
pub mod DraftFacts
pub mod CommandFacts
pub mod Runs
pub mod Tells
pub mod DraftTurns
pub mod PublishFacts
pub mod ArgumentFacts
pub mod Ticks
pub mod HeadFacts
pub mod StandingFacts
pub mod MadeCalls
pub mod SoundFacts
