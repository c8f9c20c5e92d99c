pub mod EightLaws
pub mod LineLaws
pub mod OutLaws
pub mod ModeLaws
pub mod RawSixLaws
