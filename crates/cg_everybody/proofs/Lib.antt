pub mod Held
mod Walked
mod Listing
mod Entering
mod AdviceWritten
mod AdviceLaws
pub mod Changing
pub mod Changed
mod PlainObjects
mod ObjectLists
