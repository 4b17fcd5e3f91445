pub mod Replays
pub mod Shortcuts
pub mod Faults
