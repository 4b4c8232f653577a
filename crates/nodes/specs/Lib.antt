pub mod Given
pub mod Nodes
