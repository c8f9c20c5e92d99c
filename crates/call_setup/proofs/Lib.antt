pub mod Fulls
pub mod Refusals
pub mod Counts
pub mod FreshAudit
