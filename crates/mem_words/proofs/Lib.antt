pub mod Fits
pub mod NoneLaws
