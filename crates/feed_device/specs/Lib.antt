pub mod Calls
pub mod Links
pub mod Sockets
pub mod Files
pub mod Lines
pub mod Reports
