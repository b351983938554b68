pub mod Records
pub mod Refusals
pub mod Words
pub mod Fewness
