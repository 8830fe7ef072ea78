pub mod Laws
pub mod Fields
pub mod Lists
pub mod Theorems
pub mod Gathers
pub mod GatherRows
pub mod Words
