pub mod Entries
pub mod Cells
pub mod Keeping
