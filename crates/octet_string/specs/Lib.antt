pub mod Strings
pub mod Optional
pub mod Answers
pub mod Decided
