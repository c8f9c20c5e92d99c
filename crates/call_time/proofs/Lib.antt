pub mod Cases
pub mod EngineLaws
pub mod Tables
