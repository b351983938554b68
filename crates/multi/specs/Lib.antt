pub mod Open
pub mod Rounds
pub mod Within
