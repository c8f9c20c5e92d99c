pub mod Choice
pub mod BudgetLaws
pub mod WalkLaws
pub mod ListLaws
pub mod EntryLaws
pub mod StoredLaws
pub mod NameRead
pub mod Once
