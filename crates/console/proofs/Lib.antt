pub mod Long
pub mod Whole
