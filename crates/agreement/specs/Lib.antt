pub mod Unfold
pub mod Agreement
