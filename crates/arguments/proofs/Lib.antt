mod CommandLaws
mod FoundLaws
mod GivenLaws
pub mod MadeLaws
pub mod UserWordLaws
mod WordLaws
pub mod WantedLaws
