pub mod Rows
pub mod Passes
pub mod Loops
pub mod Decided
pub mod Outcomes
