-- What serves the contracts of private functions. Nobody has to read it who reads the promises.
pub mod Reading
pub mod Scanning
pub mod Sizes
pub mod Opening
pub mod Listing
pub mod Writing
pub mod Faults
