pub mod Sums
pub mod Balance
pub mod Arrives
pub mod Silent
pub mod Served
pub mod Ends
