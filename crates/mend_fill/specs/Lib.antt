pub mod Lines
pub mod Fill
