pub mod Arrival
pub mod Both
