pub mod Capacities
pub mod Slots
