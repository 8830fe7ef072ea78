pub mod Strings
pub mod Share
pub mod Returns
pub mod Apart
pub mod Shared
pub mod Mix
pub mod Instance
pub mod Rows
