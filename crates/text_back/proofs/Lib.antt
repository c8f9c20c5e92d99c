pub mod Cut
pub mod ReadBack
pub mod Says
pub mod Texts
pub mod Bounds
pub mod Printed
