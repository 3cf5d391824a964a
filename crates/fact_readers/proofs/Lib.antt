-- Lemmas.
pub mod Fronts
pub mod Adding
pub mod Lessons
pub mod Versions
