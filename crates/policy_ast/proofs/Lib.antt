-- Lemmas about the definitions of this crate, and these tried on small documents.
mod DocumentRows
pub mod TokenPrefixes
pub mod LongestTokens
pub mod grammar
