pub mod Books
pub mod Told
