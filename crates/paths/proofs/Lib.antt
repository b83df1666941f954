pub mod Paths
pub mod Moves
pub mod Ranks
pub mod Answers
