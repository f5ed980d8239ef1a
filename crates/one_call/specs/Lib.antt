pub mod Readers
pub mod Bench
pub mod Fakes
