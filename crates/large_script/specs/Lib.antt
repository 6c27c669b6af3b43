pub mod Draws
pub mod Generating
