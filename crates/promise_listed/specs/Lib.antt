pub mod Heads
pub mod Same
pub mod Tied
