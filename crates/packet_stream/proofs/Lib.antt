pub mod Fronting
pub mod Packed
pub mod Longer
pub mod Heads
mod Left
