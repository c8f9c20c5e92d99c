pub mod Trace
pub mod Listing
