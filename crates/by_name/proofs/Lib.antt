pub mod Bench
pub mod Rows
pub mod Indexes
pub mod Unique
pub mod Rest
pub mod Fakes
pub mod Wrong
