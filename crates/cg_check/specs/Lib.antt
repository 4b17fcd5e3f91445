pub mod Answers
pub mod Checks
pub mod Listed
pub mod Opened
pub mod Unguarded
