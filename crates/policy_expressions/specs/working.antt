-- What private calls are shown by.
pub mod Orders
pub mod Places
pub mod Gaps
pub mod FewWrites
