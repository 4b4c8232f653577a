pub mod Check
pub mod Cycle
pub mod Whole
pub mod Typed
