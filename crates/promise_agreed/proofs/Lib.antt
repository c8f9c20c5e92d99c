pub mod StepLaws
pub mod HeaderLaws
pub mod EventLaws
pub mod SlotLaws
pub mod DueTimes
pub mod Beside
pub mod Worked
pub mod Top
