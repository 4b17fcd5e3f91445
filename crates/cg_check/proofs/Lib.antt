mod Unopened
mod Wider
pub mod Tried
mod Monotone
pub mod Openings
pub mod Escaping
pub mod Checking
pub mod Pairs
mod FirstUnguarded
pub mod AllContained
pub mod AnswerLaws
mod LimitFiles
pub mod ListedLaws
pub mod ListedPairs
