pub mod Bounds
pub mod Still
pub mod Contraction
pub mod Orders
pub mod Stored
mod Sums
mod Renewed
mod Little
mod Last
pub mod Taken
pub mod Returns
