pub mod Counted
pub mod Guard
pub mod Room
pub mod Tally
