pub mod Joined
pub mod Unfed
