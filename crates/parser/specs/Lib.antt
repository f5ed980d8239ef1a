pub mod Reader
pub mod Decided
