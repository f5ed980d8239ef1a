pub mod One
pub mod Part
