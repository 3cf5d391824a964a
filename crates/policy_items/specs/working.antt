-- What the code is shown by.
pub mod Kinds
