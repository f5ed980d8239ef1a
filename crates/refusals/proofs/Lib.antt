pub mod Read
pub mod Rest
pub mod Found
pub mod Undone
pub mod Decided
pub mod Places
pub mod Codes
pub mod Wrong
