-- What private functions say.
pub mod Steps
pub mod Sealing
pub mod SealLaws
