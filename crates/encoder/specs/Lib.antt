pub mod Encode
pub mod Encoder
pub mod Calls
pub mod Parts
pub mod Decided
