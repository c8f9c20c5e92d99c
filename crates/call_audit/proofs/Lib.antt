pub mod WaitsLaws
pub mod ShapeLaws
pub mod NameLaws
pub mod Clauses
pub mod EndsFit
pub mod MarkLaws
