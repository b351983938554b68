pub mod Words
pub mod Dones
