pub mod Pitch
pub mod Theorems
pub mod Returns
