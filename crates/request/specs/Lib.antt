pub mod InLine
pub mod Kinds
pub mod Rest
pub mod Table
