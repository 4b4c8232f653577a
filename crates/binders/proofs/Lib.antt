mod Bits
pub mod Fitting
mod Names
mod Tallies
mod Bearing
mod Doubling
mod Sights
mod Scopes
