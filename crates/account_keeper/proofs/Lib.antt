pub mod Each
pub mod Found
pub mod Parts
pub mod RowLaws
pub mod Whole
