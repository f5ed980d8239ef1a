pub mod Slice
pub mod Stretch
pub mod Decided
