pub mod Beside
pub mod Help
pub mod Missing
pub mod Modes
pub mod Waiting
