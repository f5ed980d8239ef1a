pub mod Grammar
pub mod Walkers
pub mod ItemReaders
pub mod Sights
pub mod Bench
pub mod Fakes
