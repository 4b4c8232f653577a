pub mod Reading
pub mod Unfolding
pub mod Heaps
pub mod Seeding
pub mod Agree
pub mod Meaning
pub mod Widths
