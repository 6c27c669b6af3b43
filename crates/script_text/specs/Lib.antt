pub mod Words
pub mod ClientLines
pub mod EventLines
pub mod Lines
pub mod Reading
pub mod Users
pub mod Grammar
