pub mod Values
pub mod Answers
pub mod Decided
