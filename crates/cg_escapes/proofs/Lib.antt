mod Worded
pub mod EscapeLines
pub mod EscapeReplays
