pub mod Indexes
pub mod Bench
pub mod Fakes
