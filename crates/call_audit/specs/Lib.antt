pub mod Budgets
pub mod Marks
pub mod Shape
