pub mod Operators
pub mod Untouched
