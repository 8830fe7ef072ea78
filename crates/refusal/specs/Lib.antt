pub mod Limits
pub mod Numbers
pub mod Orders
pub mod Ranges
pub mod Returned
