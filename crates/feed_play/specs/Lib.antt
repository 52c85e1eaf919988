pub mod Fault
pub mod FeedLines
pub mod Lines
pub mod Player
pub mod Script
pub mod Printed
