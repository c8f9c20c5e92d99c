pub mod Room
pub mod Adds
