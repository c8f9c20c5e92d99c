pub mod FirstLaws
pub mod WalkLaws
pub mod LineLaws
pub mod QuietLaws
pub mod WorkedLaws
pub mod Top
