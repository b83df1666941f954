pub mod Strip
pub mod Cursor
pub mod Search
