pub mod Calls
pub mod ListFold
pub mod ForWhile
