pub mod Tokens
pub mod Patterns
pub mod Quoting
