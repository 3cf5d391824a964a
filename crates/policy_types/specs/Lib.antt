-- The definitions that the contracts of this crate cite, in the order in which they are read.
pub mod Fitting
pub mod Endings
pub mod Asked
pub mod Listed
pub mod EndsWell
pub mod ActsWell
pub mod NeverStuck
pub mod Resolved
pub mod Ranks
