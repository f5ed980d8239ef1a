pub mod Bench
pub mod Decided
