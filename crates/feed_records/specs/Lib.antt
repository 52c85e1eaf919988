pub mod Connections
pub mod Fronts
pub mod InMemory
pub mod Parting
pub mod ScreenLines
