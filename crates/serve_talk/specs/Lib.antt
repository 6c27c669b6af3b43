pub mod Sides
pub mod Serving
pub mod Fitting
pub mod Paths
