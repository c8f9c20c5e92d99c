pub mod Shape
pub mod Walk
pub mod Cases
pub mod Pieces
