pub mod Order
pub mod Later
