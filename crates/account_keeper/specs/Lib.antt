pub mod Record
pub mod Records
pub mod Finding
pub mod Shelf
