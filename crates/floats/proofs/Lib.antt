pub mod Laws
pub mod Outward
pub mod Whole
pub mod Parts
pub mod Tests
pub mod Times
mod Numbers
pub mod Returns
pub mod Theorems
pub mod Delays
pub mod Rows
