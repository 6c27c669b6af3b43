pub mod Views
pub mod Turns
pub mod Steps
pub mod Rule
pub mod Book
pub mod Seats
