pub mod Refused
pub mod Started
pub mod Committed
pub mod Instantly
