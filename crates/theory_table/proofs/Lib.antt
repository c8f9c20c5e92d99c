pub mod ClockLaws
pub mod LeakLaws
pub mod BucketLaws
pub mod VerdictLaws
pub mod ConnectionLaws
