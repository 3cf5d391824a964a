-- What serves the contracts of private functions alone.
pub mod Reads
pub mod Runs
pub mod Separators
