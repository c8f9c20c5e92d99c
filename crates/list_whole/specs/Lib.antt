pub mod Run
pub mod Fill
pub mod Lent
