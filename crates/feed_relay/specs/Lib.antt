pub mod Dialing
pub mod Fault
pub mod First
pub mod Misses
pub mod Pulling
pub mod Serving
