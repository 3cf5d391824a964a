-- Lemmas that the proofs of this crate share.
pub mod BlockSteps
pub mod Documents
pub mod Drops
pub mod FirstPlaces
pub mod FrontSteps
pub mod LineNumbers
pub mod LineSteps
pub mod TokenSteps
pub mod WordRuns
pub mod Comments
pub mod Digits
pub mod TextUtf8
pub mod Texts
