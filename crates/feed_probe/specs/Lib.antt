pub mod Behaviour
pub mod Call
pub mod First
pub mod Needs
pub mod Settling
pub mod Surveyed
