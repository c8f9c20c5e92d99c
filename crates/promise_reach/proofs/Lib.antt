pub mod Later
pub mod Never
