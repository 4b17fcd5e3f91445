pub mod Building
pub mod CommandLine
pub mod Formats
pub mod Given
pub mod UserWords
pub mod Words
