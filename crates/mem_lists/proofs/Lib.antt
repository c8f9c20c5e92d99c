pub mod PairLaws
pub mod SeatLaws
pub mod LeaverLaws
pub mod OffLaws
pub mod LinkLaws
pub mod After
