pub mod Cases
pub mod Once
pub mod Worked
