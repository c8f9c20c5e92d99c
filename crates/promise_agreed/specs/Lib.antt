pub mod Agreed
pub mod DueTimes
pub mod Beside
