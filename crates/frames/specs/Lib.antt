pub mod Frames
pub mod Steps
