pub mod Bytes
pub mod Again
pub mod Held
pub mod Plain
pub mod RoundTrip
pub mod Decided
pub mod Examples
pub mod Wrong
