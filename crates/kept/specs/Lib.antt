pub mod Lent
pub mod Awaited
pub mod Limits
pub mod Since
