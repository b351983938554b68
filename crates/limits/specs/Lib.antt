pub mod Capacity
