pub mod WayLaws
pub mod Once
