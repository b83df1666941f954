pub mod Table
pub mod Outcomes
pub mod Masks
pub mod Of
pub mod Blocks
pub mod Climbs
