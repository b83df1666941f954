pub mod Path
pub mod Ballot
pub mod Number
pub mod Stack
pub mod Cell
pub mod Laws
