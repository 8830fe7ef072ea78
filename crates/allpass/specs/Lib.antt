pub mod Allpass
pub mod Bounds
pub mod Stored
pub mod Products
pub mod Length
pub mod Returns
