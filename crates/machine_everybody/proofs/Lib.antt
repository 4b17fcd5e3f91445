pub mod Guarding
pub mod LetIn
pub mod Members
