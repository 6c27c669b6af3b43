pub mod Alphabet
pub mod Crypt
pub mod Fronts
