pub mod NativeLaws
pub mod UpperHex
