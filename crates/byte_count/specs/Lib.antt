pub mod Count
pub mod Decided
