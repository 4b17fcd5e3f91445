pub mod GuardedLaws
pub mod MachineLaws
pub mod AuditedLaws
pub mod EverybodyLaws
