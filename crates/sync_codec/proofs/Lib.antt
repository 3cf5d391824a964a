pub mod Lists
pub mod MessageFormats
pub mod MessageLaws
