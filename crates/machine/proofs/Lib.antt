mod Lists
mod Acts
mod Untouched
mod Rooms
mod Edges
pub mod Runs
