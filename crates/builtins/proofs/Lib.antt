mod Folds
mod Hashes
pub mod Counts
