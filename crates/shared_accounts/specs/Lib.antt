pub mod Beginnings
pub mod Calls
pub mod Desks
pub mod Laws
pub mod Sharing
pub mod Tickets
