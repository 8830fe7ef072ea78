mod Products
pub mod Cancelled
mod Steps
pub mod Small
pub mod Lists
pub mod Theorems
pub mod Refusals
pub mod Returns
