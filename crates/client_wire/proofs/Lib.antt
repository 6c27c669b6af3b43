pub mod Fronted
pub mod Turning
pub mod GoingOn
pub mod Exchanging
