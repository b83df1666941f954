pub mod Orders
pub mod Lawful
pub mod Probes
pub mod Compared
