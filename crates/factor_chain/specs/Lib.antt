pub mod CheckedOf
pub mod Checking
