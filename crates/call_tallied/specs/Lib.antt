pub mod Tallied
pub mod Laws
pub mod Promise
