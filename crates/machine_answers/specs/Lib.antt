pub mod Guarded
pub mod Contained
