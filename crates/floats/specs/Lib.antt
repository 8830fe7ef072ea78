pub mod Worth
pub mod Steps
pub mod Sample
pub mod Loss
pub mod Delay
pub mod Theorems
pub mod Returns
pub mod Rows
