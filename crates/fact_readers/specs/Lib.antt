-- The definitions that the contracts of this crate cite. Those in `working` serve private functions alone.
pub mod Changes
pub mod Readers
pub mod Writers
pub mod working
