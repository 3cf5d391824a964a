-- The definitions that the contracts of this crate cite. Those in `working` serve private functions alone.
pub mod Callers
pub mod Seats
pub mod Rule
pub mod Turns
pub mod working
