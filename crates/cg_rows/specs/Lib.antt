pub mod Places
pub mod Processes
pub mod RowsForm
