pub mod Record
pub mod Returns
pub mod Words
