pub mod Whole
pub mod Shows
pub mod Once
