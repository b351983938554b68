pub mod EventRecords
pub mod Faults
pub mod Header
pub mod Lineup
