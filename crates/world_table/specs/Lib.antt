pub mod Drawing
pub mod Attempts
pub mod Table
pub mod Printing
pub mod Statements
