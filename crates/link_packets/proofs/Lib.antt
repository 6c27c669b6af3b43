pub mod Moves
pub mod Packets
