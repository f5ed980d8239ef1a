pub mod Values
pub mod Ranges
pub mod Narrow
pub mod Gets
pub mod Decided
pub mod Wrong
