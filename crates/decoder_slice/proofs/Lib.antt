pub mod Runs
pub mod Skips
pub mod Taken
pub mod Examples
pub mod Decided
pub mod Wrong
