pub mod Fitted
pub mod Decided
pub mod Grown
pub mod Walked
pub mod Served
