pub mod Outcomes
pub mod OperationLines
pub mod LineReading
pub mod LineFaults
pub mod LineLengths
