pub mod QueueLaws
pub mod LineLaws
pub mod OrderLaws
pub mod RisingLaws
