pub mod Run
pub mod Leak
pub mod Seen
pub mod Eight
pub mod Judged
pub mod Computed
pub mod RawSix
