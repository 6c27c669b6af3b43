pub mod Given
pub mod Growing
