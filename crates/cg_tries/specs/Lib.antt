pub mod Escapes
pub mod Finding
