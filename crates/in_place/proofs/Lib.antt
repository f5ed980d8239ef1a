pub mod Decided
pub mod Wrong
