pub mod Samples
pub mod Taken
