pub mod Formula
pub mod Coefficients
pub mod Theorems
pub mod Steps
pub mod Answers
pub mod Returns
