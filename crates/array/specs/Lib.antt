pub mod Split
pub mod Parts
pub mod Row
pub mod Path
pub mod Partition
