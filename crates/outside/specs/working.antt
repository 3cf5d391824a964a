-- What serves contracts of private functions, views of private fields among it, and proofs of the traits' laws.
pub mod AtRest
pub mod EnvelopeLaw
