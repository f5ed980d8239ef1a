pub mod Bytes
pub mod Since
pub mod Exactly
