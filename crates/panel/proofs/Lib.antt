pub mod Orders
pub mod Kept
pub mod Shows
pub mod Rightly
pub mod Lines
