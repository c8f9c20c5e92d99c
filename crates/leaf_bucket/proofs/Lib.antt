pub mod Elapsed
pub mod RoundedUp
pub mod Rules
pub mod SecondRules
