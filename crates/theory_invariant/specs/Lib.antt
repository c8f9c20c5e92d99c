pub mod Invariant
pub mod Came
pub mod Gone
