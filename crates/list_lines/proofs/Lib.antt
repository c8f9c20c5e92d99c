pub mod Decimals
pub mod Puts
pub mod Words
pub mod Cases
