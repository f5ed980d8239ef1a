pub mod Causes
pub mod Tools
pub mod Calls
pub mod Hidden
pub mod Watchers
pub mod Bench
pub mod Fakes
