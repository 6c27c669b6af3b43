pub mod Clients
pub mod Cuts
pub mod Digits
pub mod Given
pub mod GivenEvents
pub mod Users
pub mod Standing
pub mod Whole
