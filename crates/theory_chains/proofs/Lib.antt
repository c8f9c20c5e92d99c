pub mod CountLaws
pub mod StrungLaws
pub mod JoinLaws
pub mod AuditLaws
