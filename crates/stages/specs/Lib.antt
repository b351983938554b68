pub mod Journal
pub mod Marks
pub mod Meaning
pub mod Sieve
