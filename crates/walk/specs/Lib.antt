pub mod Walk
pub mod Cut
pub mod Answers
pub mod Decided
