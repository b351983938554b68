pub mod AsRun
