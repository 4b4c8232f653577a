pub mod Frames
pub mod Turns
pub mod Ways
pub mod Backs
