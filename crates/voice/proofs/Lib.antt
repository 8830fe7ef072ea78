pub mod Called
pub mod Tunes
pub mod Within
