pub mod Events
pub mod Theorems
