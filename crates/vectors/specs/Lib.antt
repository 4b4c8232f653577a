pub mod Books
pub mod Due
pub mod Replayed
pub mod Tables
