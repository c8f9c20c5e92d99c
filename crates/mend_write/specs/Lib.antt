pub mod Handed
pub mod Reads
