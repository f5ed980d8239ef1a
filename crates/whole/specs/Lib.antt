pub mod Whole
pub mod Answers
pub mod Cut
pub mod Decided
