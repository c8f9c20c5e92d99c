pub mod ReachedLaws
