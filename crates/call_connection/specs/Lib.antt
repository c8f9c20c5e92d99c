pub mod Names
pub mod Rates
pub mod NotYet
pub mod Own
