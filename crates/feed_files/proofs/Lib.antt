pub mod InputLemmas
pub mod FileLemmas
pub mod Filed
pub mod FilesLeft
pub mod FileReading
pub mod AuditedLemmas
