pub mod ArriveLaws
pub mod SpotLaws
