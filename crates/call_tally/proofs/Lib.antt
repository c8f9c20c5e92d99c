pub mod Sums
pub mod Cases
pub mod Steps
pub mod Counting
pub mod TallyLaws
pub mod PercentileLaws
pub mod Standing
