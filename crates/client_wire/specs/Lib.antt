pub mod Getting
pub mod Ends
pub mod Words
pub mod Laws
pub mod UnderWay
pub mod Waiting
pub mod Clients
