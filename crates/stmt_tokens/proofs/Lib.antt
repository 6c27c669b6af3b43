pub mod Lexing
pub mod Numbers
pub mod Standing
pub mod Written
