pub mod Guarding
pub mod Sound
