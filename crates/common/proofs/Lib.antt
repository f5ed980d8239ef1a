pub mod Fields
pub mod Gets
pub mod Ends
pub mod Decided
