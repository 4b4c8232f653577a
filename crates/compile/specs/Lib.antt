pub mod Lower
pub mod Cycle
pub mod Whole
pub mod Edges
