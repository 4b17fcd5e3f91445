mod Classes
mod Telling
mod Holding
mod Within
mod Untold
mod Told
mod Meeting
mod Placing
pub mod PlainObjects
