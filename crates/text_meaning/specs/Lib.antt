pub mod Shapes
pub mod Events
pub mod Grammar
pub mod Writing
