pub mod Calls
mod Lines
pub mod Words
