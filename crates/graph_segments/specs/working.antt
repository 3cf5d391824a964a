-- What serves the contracts of private functions, or a trait's law. Nobody has to read it who reads the promises.
pub mod Tables
pub mod Search
