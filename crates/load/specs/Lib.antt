pub mod Says
pub mod Words
pub mod Loaded
