pub mod Check
pub mod WrongBit
pub mod Modes
pub mod Word
