pub mod LevelBars
mod FirstOfMapped
mod ChangesLeft
pub mod Tellings
