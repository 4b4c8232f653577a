pub mod Blocks
mod Ends
mod Lists
pub mod Marks
pub mod Numbers
pub mod Spans
