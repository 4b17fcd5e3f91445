pub mod Seen
pub mod Single
pub mod Controls
pub mod Moves
pub mod Receivers
pub mod Probes
pub mod Walks
pub mod OtherSets
pub mod Levels
pub mod ProbeNames
pub mod FreeProbes
pub mod ProbeWalk
pub mod ProbeLaws
pub mod PlainTries
mod Told
