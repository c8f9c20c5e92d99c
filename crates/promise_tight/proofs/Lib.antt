pub mod MetLaws
pub mod PigeonLaws
pub mod CallLaws
pub mod SendLaws
pub mod WholeLaws
pub mod LateLaws
