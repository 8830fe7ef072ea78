pub mod Struct
pub mod Valid
pub mod Words
