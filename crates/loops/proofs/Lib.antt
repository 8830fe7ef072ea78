pub mod Ahead
pub mod Carrying
pub mod Fed
pub mod Leading
pub mod Passes
pub mod Rendered
pub mod Taking
