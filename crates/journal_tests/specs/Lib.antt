-- What the helpers of the tests promise each other.
pub mod Working
