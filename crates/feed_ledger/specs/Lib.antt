pub mod Codes
pub mod Entries
pub mod Noted
pub mod Seen
