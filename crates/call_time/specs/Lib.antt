pub mod Schedule
pub mod Asked
pub mod Laws
pub mod Tables
