pub mod Replies
pub mod Hands
pub mod Plays
pub mod Refusals
