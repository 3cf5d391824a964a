-- What the two limits are shown by.
pub mod Gathering
pub mod Rounds
