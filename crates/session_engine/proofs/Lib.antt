mod Found
mod Whole
