pub mod Index
pub mod Answers
pub mod Rows
pub mod Heap
pub mod Few
pub mod Sought
pub mod Decided
