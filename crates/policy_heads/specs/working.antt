-- What the look-ups are shown by.
pub mod Kept
