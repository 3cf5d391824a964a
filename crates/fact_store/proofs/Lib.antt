-- Lemmas that the proofs of this crate share.
pub mod Bases
pub mod Copied
pub mod Lists
pub mod Places
pub mod RowLaws
pub mod Runs
pub mod Sameness
pub mod Telling
pub mod Writing
pub mod Written
