pub mod Row
pub mod Table
pub mod ShutOut
pub mod Own
