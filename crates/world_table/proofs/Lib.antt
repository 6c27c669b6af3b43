mod Labels
pub mod Refused
pub mod Counted
pub mod AsTold
pub mod Lettered
