pub mod Order
pub mod Coldest
pub mod Faults
pub mod Tenths
pub mod Probes
pub mod Text
