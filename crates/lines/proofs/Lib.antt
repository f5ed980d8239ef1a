pub mod Laws
pub mod Whole
pub mod Examples
pub mod Decided
pub mod Wrong
