mod Table
pub mod Theorems
mod Quotient
pub mod Lengths
pub mod Returns
pub mod Refused
