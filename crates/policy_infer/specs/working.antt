-- What the private calls are shown by, step by step.
pub mod Answers
pub mod Types
pub mod ScopeViews
pub mod Behind
pub mod Listed
pub mod Returns
pub mod Parts
