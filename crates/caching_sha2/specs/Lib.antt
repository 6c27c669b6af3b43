pub mod Fast
pub mod Stored
