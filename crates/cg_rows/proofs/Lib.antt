pub mod Sorted
pub mod Below
pub mod Changed
pub mod TablesState
pub mod StdMaps
