pub mod RuleLaws
pub mod SaidLaws
pub mod PassLaws
pub mod SourceLaws
pub mod Top
pub mod WorkedLaws
