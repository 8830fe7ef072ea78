pub mod Sequence
pub mod Theorems
