-- What serves the contracts of private functions. Nobody has to read it who reads the promises.
pub mod Hearing
pub mod Following
