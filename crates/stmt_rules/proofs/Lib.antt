pub mod Fit
pub mod Loops
pub mod Onward
pub mod OnwardRules
pub mod Values
