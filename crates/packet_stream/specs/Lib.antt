pub mod Streams
pub mod Sent
pub mod Packing
pub mod Inbox
pub mod Queue
