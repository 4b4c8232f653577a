pub mod Seeds
pub mod Ends
