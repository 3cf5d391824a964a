-- Lemmas that the proofs of this crate share.
mod PlaceFacts
mod HandleFacts
mod CauseFacts
mod ChangeFacts
mod RestartFacts
mod RoundFacts
mod SessionFacts
mod LineFacts
mod ArmFacts
mod OpenFacts
