pub mod Next
pub mod Answers
pub mod Decided
pub mod Meaning
