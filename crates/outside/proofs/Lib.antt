pub mod Crashes
pub mod Written
