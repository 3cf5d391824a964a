-- The texts that a run prints, over plain data. Each line ends with a line feed.
pub mod Bytes
pub mod Values
pub mod Refusals
pub mod Replies
pub mod Shown
pub mod Modes
