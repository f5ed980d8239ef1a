pub mod Numbers
pub mod Read
pub mod Answers
pub mod Decided
