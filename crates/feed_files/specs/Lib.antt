pub mod Input
pub mod Saved
pub mod Writing
pub mod Figures
pub mod Audited
pub mod Laws
