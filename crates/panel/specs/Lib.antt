pub mod Logs
pub mod Refusals
pub mod Replies
pub mod Firing
pub mod Of
pub mod Text
pub mod Input
