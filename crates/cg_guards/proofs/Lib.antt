pub mod AlikeEntries
pub mod AskedTable
pub mod FirstFailed
pub mod KeptOff
pub mod OutOfReach
pub mod PassedOver
pub mod TableWalk
