pub mod OwnerLaws
pub mod Taken
pub mod Running
pub mod Advising
pub mod Gathering
pub mod Founding
pub mod Written
pub mod Thinning
