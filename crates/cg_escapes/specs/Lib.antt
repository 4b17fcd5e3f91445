pub mod EscapeLines
pub mod EscapeReplays
