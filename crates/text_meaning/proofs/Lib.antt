pub mod Worked
pub mod Octets
