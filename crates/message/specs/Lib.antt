pub mod Messages
pub mod Answers
pub mod Decided
