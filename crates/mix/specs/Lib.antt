pub mod Sums
pub mod Rendered
