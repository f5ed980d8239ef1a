pub mod Order
pub mod Decided
