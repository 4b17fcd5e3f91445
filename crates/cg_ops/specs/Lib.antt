pub mod Memory
pub mod Moves
