pub mod Print
pub mod Fill
