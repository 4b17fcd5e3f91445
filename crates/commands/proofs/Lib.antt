mod BesideLaws
pub mod BufferedLaws
mod FaultLaws
mod LineLaws
pub mod PairLaws
mod ProgramLaws
mod RequestLaws
mod RunLaws
pub mod SubtreeLaws
mod WaitingLaws
pub mod YesLaws
