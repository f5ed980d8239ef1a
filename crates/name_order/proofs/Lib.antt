pub mod Lower
pub mod Compared
pub mod Decided
