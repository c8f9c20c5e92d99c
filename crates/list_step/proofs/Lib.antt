pub mod Did
pub mod Step
