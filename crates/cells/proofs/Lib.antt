pub mod Outs
pub mod Numbers
pub mod Shapes
pub mod Keepings
pub mod Words
pub mod Deliveries
