pub mod Parts
pub mod OneSlot
pub mod Turns
pub mod Loop
pub mod Refusals
pub mod BurstLaws
