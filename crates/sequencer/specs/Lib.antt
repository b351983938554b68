pub mod Claims
pub mod Laws
pub mod Runs
pub mod Sequencer
