pub mod Shown
pub mod ShownPairs
