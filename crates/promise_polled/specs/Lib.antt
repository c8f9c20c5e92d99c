pub mod Polled
pub mod Holds
pub mod Worked
