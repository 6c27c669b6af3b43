pub mod Facts
pub mod Adding
pub mod Owning
pub mod Goes
pub mod Speaking
pub mod Starting
