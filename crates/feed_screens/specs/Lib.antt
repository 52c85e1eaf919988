pub mod Serving
pub mod Held
pub mod Waiting
pub mod Seating
pub mod Counting
pub mod Pending
pub mod Owed
