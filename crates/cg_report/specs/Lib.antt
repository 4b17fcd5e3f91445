pub mod VerdictLines
pub mod AnswerLines
pub mod AuditLines
pub mod PairLines
