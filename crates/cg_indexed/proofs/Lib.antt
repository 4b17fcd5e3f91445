pub mod Living
pub mod States
pub mod Taken
