pub mod Theorems
pub mod Figures
pub mod Runs
pub mod Rows
