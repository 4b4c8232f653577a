mod Folds
mod Loops
pub mod Counts
