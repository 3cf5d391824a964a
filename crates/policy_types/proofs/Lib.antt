-- Lemmas of this crate.
pub mod Layers
pub mod Fitting
pub mod Fields
pub mod Standing
pub mod Values
pub mod Rows
pub mod Giving
pub mod Layouts
pub mod Expressions
pub mod Coverage
pub mod Statements
pub mod Functions
pub mod Finish
pub mod Writes
pub mod Blocks
pub mod Actions
pub mod PolicyLaws
pub mod Resolving
pub mod WiderCalls
pub mod Ranks
mod SmallRows
