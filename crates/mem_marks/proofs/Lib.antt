pub mod WordLaws
pub mod RingLaws
pub mod FourLaws
