mod Small
mod Rest
mod Steps
mod Lines
mod Texts
pub mod Pushes
