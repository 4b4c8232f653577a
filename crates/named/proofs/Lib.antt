pub mod Runs
pub mod Storing
pub mod Builds
pub mod Images
pub mod Sizes
