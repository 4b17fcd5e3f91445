pub mod AdviceLines
pub mod WayLines
pub mod Advised
pub mod Ways
pub mod Thinned
pub mod Found
