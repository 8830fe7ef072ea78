pub mod Sequence
pub mod Following
pub mod Waits
pub mod Record
