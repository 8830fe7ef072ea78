pub mod Awaited
pub mod Limits
pub mod Since
