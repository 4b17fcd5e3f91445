pub mod Everybody
