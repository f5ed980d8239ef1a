pub mod Told
pub mod Wholes
pub mod Indexes
pub mod Losses
pub mod Decided
pub mod Wrong
