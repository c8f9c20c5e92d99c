pub mod Moved
pub mod Theorems
pub mod Mended
pub mod Damage
pub mod Front
pub mod Top
pub mod Worked
