pub mod PlanLaws
pub mod LeaveLaws
pub mod NowLaws
pub mod SeenLaws
