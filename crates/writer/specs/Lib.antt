pub mod Fields
pub mod Messages
pub mod Calls
pub mod Answers
pub mod Cut
pub mod Decided
