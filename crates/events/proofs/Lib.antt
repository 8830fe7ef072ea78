pub mod Handled
pub mod Theorems
