pub mod Faults
pub mod Kinds
pub mod Answers
pub mod Logs
pub mod Of
pub mod Bakes
pub mod Strips
pub mod Words
