pub mod Frames
pub mod Theorems
pub mod Figures
pub mod Rows
