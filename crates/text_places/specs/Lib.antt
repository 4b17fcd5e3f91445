pub mod Nearest
pub mod Shown
pub mod Positions
pub mod Places
