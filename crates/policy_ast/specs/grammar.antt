-- The grammar of policies, production by production.
pub mod Parts
pub mod Fixed
pub mod Forms
pub mod Fields
pub mod Patterns
pub mod Expressions
pub mod Statements
pub mod Items
pub mod Policies
