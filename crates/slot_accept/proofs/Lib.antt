pub mod PairLaws
pub mod SeatLaws
pub mod GoingLaws
