pub mod Lists
pub mod Numbers
pub mod Entries
pub mod Books
pub mod Moves
pub mod Closing
pub mod Turning
pub mod Seats
