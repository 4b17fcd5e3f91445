pub mod Faults
pub mod FaultLines
