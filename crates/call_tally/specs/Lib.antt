pub mod Tally
pub mod Step
pub mod Delays
pub mod Laws
