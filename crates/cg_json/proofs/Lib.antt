pub mod Plain
pub mod PlainAdvice
pub mod PlainOutcomes
pub mod Audited
pub mod Pushed
