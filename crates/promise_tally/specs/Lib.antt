pub mod Summary
pub mod Worked
