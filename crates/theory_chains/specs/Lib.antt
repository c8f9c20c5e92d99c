pub mod Strung
