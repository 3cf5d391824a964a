-- Lemmas that the proofs of this crate share.
pub mod Pieces
pub mod Goings
pub mod Moments
pub mod Rises
pub mod Loadings
pub mod Followings
