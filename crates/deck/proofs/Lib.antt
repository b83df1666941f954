pub mod Given
pub mod Refused
pub mod Words
pub mod Replays
