pub mod Trace
pub mod Combinators
pub mod Cut
pub mod Entry
pub mod Table
pub mod Stores
