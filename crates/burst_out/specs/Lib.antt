pub mod Handout
