pub mod State
pub mod Steps
pub mod Strip
pub mod Runs
pub mod Of
pub mod Laws
pub mod Resume
pub mod View
