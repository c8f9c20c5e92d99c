pub mod RingLaws
pub mod FreeLaws
pub mod HeldLaws
pub mod ShownLaws
pub mod HasLaws
pub mod MoveLaws
pub mod DatesLaws
