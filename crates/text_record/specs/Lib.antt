pub mod Record
pub mod Promises
pub mod Back
