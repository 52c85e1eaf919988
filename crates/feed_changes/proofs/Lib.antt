pub mod Order
pub mod Heads
