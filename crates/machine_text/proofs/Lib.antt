pub mod Keys
pub mod Entries
pub mod Rows
pub mod Told
pub mod One
