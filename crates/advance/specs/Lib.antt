pub mod Least
pub mod Returns
pub mod Keeps
pub mod Instances
