pub mod Layout
pub mod Packed
pub mod Cut
pub mod Decided
