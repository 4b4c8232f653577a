pub mod Whole
pub mod Calls
