pub mod Faults
pub mod Of
pub mod Steps
pub mod Runs
