pub mod Declared
pub mod Same
pub mod Sides
pub mod Places
mod Ways
mod Powers
mod Halves
mod Lists
mod Walks
mod Rows
mod Constructs
mod Functions
mod Marks
