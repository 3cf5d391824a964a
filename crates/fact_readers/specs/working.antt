-- What serves the contracts of private functions and proofs. Nobody has to read it who reads the promises.
pub mod Book
pub mod Duties
pub mod Places
