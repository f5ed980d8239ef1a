pub mod Puts
pub mod Laws
pub mod Parts
pub mod Back
pub mod Examples
pub mod Decided
pub mod Fakes
pub mod Wrong
