-- Lemmas that the proofs of this crate share.
pub mod Entries
mod KeptHeads
pub mod WalkFacts
