pub mod Matched
pub mod LastBytes
pub mod Decided
