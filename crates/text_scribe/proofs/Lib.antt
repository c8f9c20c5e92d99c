pub mod Said
pub mod Passes
pub mod Once
