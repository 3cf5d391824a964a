-- The definitions that the contracts of this crate cite.
pub mod Values
pub mod Pieces
pub mod Payload
pub mod KeyOrder
pub mod Words
pub mod Reading
pub mod Decoding
pub mod Reaching
pub mod Laws
