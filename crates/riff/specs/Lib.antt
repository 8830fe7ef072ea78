pub mod Format
pub mod Held
pub mod FileRows
