pub mod Next
pub mod Worked
