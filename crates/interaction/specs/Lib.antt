pub mod Talk
pub mod Runs
pub mod Events
pub mod Handlers
pub mod Turns
pub mod Driving
pub mod Laws
