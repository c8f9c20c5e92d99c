pub mod Stored
pub mod Clocked
pub mod Unwrapped
pub mod Kept
pub mod UnwrappedRun
