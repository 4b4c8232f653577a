pub mod Shapes
pub mod Steps
pub mod Blocks
pub mod Facts
pub mod Wholes
pub mod Fits
pub mod Edges
