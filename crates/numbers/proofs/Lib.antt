pub mod Numbers
pub mod Short
pub mod Ahead
pub mod Gets
pub mod Examples
pub mod Ends
pub mod Decided
pub mod Wrong
