pub mod Calls
pub mod OpenSets
pub mod Sets
pub mod Stepping
