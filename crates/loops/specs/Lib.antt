pub mod Carried
pub mod Fed
pub mod Rendered
