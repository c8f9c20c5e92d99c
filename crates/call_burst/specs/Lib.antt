pub mod Burst
pub mod Promise
pub mod Way
