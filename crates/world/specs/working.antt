-- What serves the contracts of private functions. Nobody has to read it who reads the promises.
pub mod Places
pub mod Stopping
pub mod Words
pub mod Kinds
pub mod Handling
pub mod Running
pub mod Fitting
pub mod Rounds
pub mod Passing
pub mod Opening
