-- Lemmas that the proofs of this crate share.
mod Behind
mod NamingFacts
mod RowFacts
