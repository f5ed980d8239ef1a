pub mod Least
pub mod Bytes
pub mod Decided
