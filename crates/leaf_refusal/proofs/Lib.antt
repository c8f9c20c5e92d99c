pub mod Ranges
pub mod Within
pub mod Numbers
