-- The definitions that the contracts of this crate cite.
pub mod Wire
pub mod Kinds
pub mod Each
pub mod Places
pub mod Cuts
pub mod Closed
pub mod Ancestors
pub mod Laws
pub mod Reading
pub mod working
