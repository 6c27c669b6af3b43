pub mod Agreed
pub mod Answering
pub mod Counted
pub mod Desked
pub mod Ends
pub mod Placed
pub mod Salts
pub mod Turning
