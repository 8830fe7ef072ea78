pub mod View
pub mod Ring
pub mod Rounding
pub mod Theorems
pub mod Cut
pub mod Sides
mod Quotient
mod Either
