pub mod Laws
pub mod Files
pub mod Follows
pub mod Connections
