pub mod Stands
pub mod Readers
pub mod Calls
pub mod Fakes
