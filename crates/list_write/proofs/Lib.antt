pub mod Parts
pub mod Once
pub mod Made
