pub mod Parts
pub mod FillLaws
pub mod PieceLaws
