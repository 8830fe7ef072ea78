pub mod Strings
pub mod Frames
