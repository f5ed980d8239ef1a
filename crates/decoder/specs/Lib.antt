pub mod Push
pub mod Record
pub mod Run
pub mod Saw
pub mod Cut
pub mod Decided
