pub mod Breaking
pub mod Following
