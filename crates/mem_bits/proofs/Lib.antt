pub mod OrLaws
pub mod LowestLaws
pub mod FitLaws
pub mod BitLaws
