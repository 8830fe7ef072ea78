pub mod Parts
pub mod Rounding
pub mod Cut
pub mod Toward
pub mod Theorems
