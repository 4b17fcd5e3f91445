pub mod OutcomeLaws
pub mod LineWords
pub mod LineNumbers
pub mod LineChanges
pub mod LineSpelled
pub mod LineLaws
pub mod LineLengths
pub mod Wider
