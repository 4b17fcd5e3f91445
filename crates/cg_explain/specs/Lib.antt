pub mod FirstRow
pub mod Counted
pub mod SecondRow
pub mod ExplainLines
pub mod PairExplained
pub mod Objects
