pub mod Gatings
pub mod Masks
pub mod Reached
