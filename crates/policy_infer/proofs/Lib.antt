-- Lemmas of this crate.
pub mod ScopeFacts
pub mod FormTypes
pub mod FieldFacts
pub mod Arms
pub mod SoFar
pub mod PlainForms
pub mod StatementForms
pub mod StatementLoops
pub mod ListedFacts
pub mod PatternFacts
pub mod ReturnFacts
pub mod ParameterFacts
mod PartFacts
