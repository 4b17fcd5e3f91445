pub mod Numbers
pub mod PathsOnce
pub mod Seen
pub mod Stepping
pub mod Alike
