pub mod InOrder
pub mod Plan
pub mod Reach
