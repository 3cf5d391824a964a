-- What serves the contracts of private functions. Nobody has to read it who reads the promises.
pub mod Changes
pub mod Backing
pub mod Readings
pub mod Openings
pub mod Commits
pub mod Reopenings
