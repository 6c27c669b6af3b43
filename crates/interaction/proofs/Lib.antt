pub mod GoingOn
pub mod Cutting
pub mod Scripting
pub mod Owing
pub mod Turning
pub mod Driving
pub mod Keeping
pub mod Using
