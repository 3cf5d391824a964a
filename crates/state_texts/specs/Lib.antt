-- What is printed of a state.
pub mod Naming
pub mod States
pub mod working
