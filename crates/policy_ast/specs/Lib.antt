-- The definitions that the contracts of this crate cite.
pub mod Version
pub mod Symbols
pub mod grammar
pub mod Laws
pub mod Words
pub mod DocumentFault
pub mod Lines
pub mod Spaces
pub mod FrontMatter
pub mod Fences
pub mod TokenForms
pub mod TokenLaws
pub mod DocumentTokens
