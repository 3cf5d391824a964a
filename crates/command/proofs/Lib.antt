-- Lemmas that the proofs of this crate and of those above share.
pub mod ListFacts
pub mod ClosedFacts
pub mod AncestorFacts
pub mod KnownAncestors
pub mod PlaceFacts
pub mod ReachFacts
pub mod CommandFormats
pub mod WireLaws
pub mod WireSizes
pub mod CutFacts
pub mod TwoForms
