pub mod Plan
pub mod Facts
pub mod Works
