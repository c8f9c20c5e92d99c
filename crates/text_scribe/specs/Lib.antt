pub mod Scribe
pub mod Handed
