pub mod Reading
pub mod Returns
pub mod Words
