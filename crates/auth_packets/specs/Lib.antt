pub mod Commands
pub mod Exchange
pub mod Faults
pub mod Flags
pub mod Handshake
pub mod Replies
