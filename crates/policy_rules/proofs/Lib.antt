-- Lemmas of this crate.
pub mod Maps
pub mod Inferring
pub mod Finding
pub mod TypeLaws
pub mod Folds
pub mod Fits
pub mod FinishLaws
pub mod StatementMaps
pub mod StatementLaws
pub mod ItemLaws
pub mod PolicyLaws
pub mod Reaching
pub mod ExistingTypes
mod ExpressionRows
mod ItemRows
mod PolicyRows
mod StatementRows
mod NotesRows
mod CountsRows
