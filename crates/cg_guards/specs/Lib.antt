pub mod Asked
pub mod GuardedUsers
pub mod Reach
pub mod Standing
