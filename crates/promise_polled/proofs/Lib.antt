pub mod WorkedLaws
pub mod WrittenLaws
pub mod BurstRuns
pub mod ReadLaws
pub mod BurstLaws
pub mod Top
