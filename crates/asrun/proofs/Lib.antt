pub mod Chunks
pub mod Day
pub mod Lines
