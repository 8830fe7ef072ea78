pub mod Added
pub mod Strings
pub mod Went
pub mod Mixed
