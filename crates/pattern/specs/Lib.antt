pub mod Find
pub mod Seeks
