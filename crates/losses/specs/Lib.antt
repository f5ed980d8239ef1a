pub mod Loss
pub mod Watch
pub mod Cut
pub mod Decided
