pub mod FormMeanings
pub mod StatementMeanings
mod NumberFacts
mod VariantFacts
mod FieldFacts
mod ChangeFacts
mod PlaceFacts
mod DistinctFacts
mod GapFacts
mod FewWrites
