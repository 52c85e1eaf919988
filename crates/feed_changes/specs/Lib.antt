pub mod ByteOrder
pub mod Changes
pub mod NameTexts
pub mod Names
