mod First
mod Refusals
pub mod Returns
pub mod Numbers
pub mod Keeps
pub mod Instances
