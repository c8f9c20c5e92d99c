pub mod Words
pub mod Within
pub mod Whole
pub mod Parse
pub mod Back
pub mod Made
pub mod Once
