pub mod Copies
pub mod SaltBytes
