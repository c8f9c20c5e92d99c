pub mod Starred
pub mod ShutOut
pub mod OwnLaws
