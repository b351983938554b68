pub mod Check
pub mod Cues
