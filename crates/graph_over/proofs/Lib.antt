-- Lemmas that the proofs of this crate share.
mod GatheredHeads
pub mod HeadFacts
pub mod PlaceFacts
mod AddedIds
