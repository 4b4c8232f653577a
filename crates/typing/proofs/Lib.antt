pub mod Deepening
mod Depths
pub mod Earlier
pub mod Exactly
mod Facts
mod Judging
mod Leaves
mod Marks
mod Orders
mod Passing
mod Scopes
mod Steps
pub mod Valued
