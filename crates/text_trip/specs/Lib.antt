pub mod Fewest
pub mod Settled
pub mod Reading
pub mod Flow
