-- What the bodies of this crate's calls go by; private contracts alone cite it.
pub mod Resolutions
