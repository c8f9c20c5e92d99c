pub mod Whole
pub mod EndLaws
