-- The definitions that the contracts of this crate cite, one file a thing.
pub mod working
pub mod Causes
pub mod Crashes
pub mod Disk
pub mod Envelope
pub mod Files
pub mod Host
pub mod MemoryFiles
pub mod MemorySink
pub mod Plan
pub mod Sink
pub mod ListEnvelope
pub mod MemoryDisk
pub mod Count
pub mod Schedule
pub mod Replaced
pub mod Tracked
