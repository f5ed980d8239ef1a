pub mod Words
pub mod Back
pub mod Answers
pub mod Claims
pub mod Fakes
pub mod Cut
pub mod Decided
