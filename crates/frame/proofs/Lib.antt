pub mod Cases
pub mod Same
pub mod Escapes
pub mod Frames
