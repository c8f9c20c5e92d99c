pub mod Sustained
pub mod Worked
