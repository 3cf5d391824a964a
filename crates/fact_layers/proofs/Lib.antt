-- Lemmas that the proofs of this crate share.
pub mod Alike
pub mod Folds
pub mod Keyed
pub mod Meaning
pub mod Nearest
pub mod Walking
pub mod Writes
