pub mod Format
pub mod Samples
pub mod FileRows
