pub mod Written
pub mod Recorded
pub mod Refusals
pub mod Theorems
