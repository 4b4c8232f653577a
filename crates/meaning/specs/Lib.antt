pub mod Source
pub mod Premises
pub mod Demand
