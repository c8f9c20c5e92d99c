pub mod Promises
pub mod Salvaged
