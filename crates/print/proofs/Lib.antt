mod Joins
pub mod Texts
pub mod Printers
