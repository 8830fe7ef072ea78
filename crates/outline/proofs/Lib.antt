pub mod Ticks
pub mod Sequence
pub mod Follows
pub mod Law
pub mod Many
pub mod Calls
pub mod Parts
pub mod Playing
