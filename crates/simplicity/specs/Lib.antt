pub mod Types
pub mod Values
pub mod Outcomes
pub mod Terms
pub mod Jets
pub mod Meaning
pub mod Typing
