pub mod Selectors
pub mod Memos
pub mod Passes
pub mod Records
pub mod Searches
