pub mod Messages
pub mod Gets
pub mod Ends
pub mod Decided
pub mod Wrong
