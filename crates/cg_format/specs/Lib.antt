pub mod Form
pub mod Said
pub mod TreeTexts
pub mod TextOf
pub mod TextFaults
pub mod Readings
pub mod Tables
