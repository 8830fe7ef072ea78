pub mod Tuned
pub mod Sums
pub mod Junctions
