pub mod Shapes
pub mod Views
pub mod Wholes
