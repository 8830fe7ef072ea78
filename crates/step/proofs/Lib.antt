pub mod Filters
pub mod Machine
pub mod Settles
pub mod Silent
pub mod Steps
