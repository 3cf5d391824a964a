-- Lemmas that the proofs of this crate share.
pub mod Shorter
pub mod Steps
pub mod Turns
pub mod Whole
