pub mod Everybody
pub mod Premises
pub mod Entrances
pub mod Advice
pub mod Explained
pub mod Objects
