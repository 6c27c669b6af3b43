pub mod Packets
pub mod Front
pub mod Framing
pub mod Progress
pub mod Streams
