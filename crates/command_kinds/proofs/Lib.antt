-- Lemmas behind the contracts.
pub mod KindFacts
