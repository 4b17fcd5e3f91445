pub mod Machines
pub mod Several
