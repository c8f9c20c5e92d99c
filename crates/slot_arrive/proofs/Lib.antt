pub mod BroughtLaws
pub mod BothLaws
pub mod JudgedLaws
