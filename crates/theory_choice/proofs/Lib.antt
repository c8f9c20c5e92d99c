pub mod AnswerLaws
pub mod AlikeLaws
pub mod Top
