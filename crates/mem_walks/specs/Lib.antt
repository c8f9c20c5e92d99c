pub mod Budget
pub mod Walk
pub mod Stored
