pub mod Message
pub mod Events
pub mod Calls
pub mod Telling
