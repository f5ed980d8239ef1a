pub mod Items
pub mod Pass
pub mod Ties
pub mod Counts
pub mod Decided
