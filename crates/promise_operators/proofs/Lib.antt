pub mod Alone
pub mod Owned
pub mod Ready
pub mod Lawful
pub mod OperatorsLaws
pub mod StayLaws
pub mod SlotLaws
