pub mod Search
pub mod Found
pub mod Decided
