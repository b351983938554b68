pub mod Basics
pub mod Firm
pub mod Ran
pub mod Reached
pub mod Steps
pub mod Told
pub mod Lawful
pub mod Passing
