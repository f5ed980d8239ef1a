pub mod Answers
pub mod Lengths
pub mod Overflow
pub mod Decided
pub mod Written
