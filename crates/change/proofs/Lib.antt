pub mod Changes
pub mod Ending
pub mod Windows
