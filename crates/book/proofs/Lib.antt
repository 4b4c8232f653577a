mod Alikes
pub mod Built
mod Chains
pub mod Complete
pub mod Course
pub mod Depths
mod Endings
pub mod Established
pub mod Extends
pub mod Fields
mod Frames
mod Going
mod Joins
pub mod Judging
mod Kept
mod Layouts
pub mod Loose
pub mod Moves
pub mod Names
pub mod Picks
pub mod Reached
pub mod Roles
pub mod Standing
pub mod Tiles
pub mod Types
pub mod Unlike
mod Ways
