pub mod Memory
pub mod Ring
