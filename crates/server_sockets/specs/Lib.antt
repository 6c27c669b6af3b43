pub mod Counts
pub mod Finding
pub mod Sights
