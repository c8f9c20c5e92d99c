pub mod Spaces
pub mod Leaver
