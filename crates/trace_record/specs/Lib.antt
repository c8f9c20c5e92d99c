pub mod Marks
pub mod Trace
pub mod Fits
pub mod Promises
