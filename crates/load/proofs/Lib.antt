pub mod Said
pub mod Found
pub mod Line
pub mod Heads
pub mod Loading
