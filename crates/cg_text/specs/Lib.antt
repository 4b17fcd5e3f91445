pub mod Faults
pub mod Keys
pub mod Rows
pub mod Walk
pub mod Live
pub mod Told
