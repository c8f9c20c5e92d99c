pub mod Fewest
pub mod Merge
pub mod Settled
pub mod Records
pub mod Trip
pub mod Streams
