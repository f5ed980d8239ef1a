pub mod Events
pub mod Pushes
pub mod Streams
pub mod Decided
pub mod Writes
