pub mod Agreeing
pub mod Bringing
pub mod GoingOn
pub mod Meeting
mod Missing
pub mod Ordered
pub mod Parts
pub mod Pasting
pub mod Prefixes
pub mod Reading
pub mod Stepping
pub mod TakingBack
pub mod Tallying
pub mod Tokens
pub mod Unreading
pub mod Verdicts
pub mod Walking
