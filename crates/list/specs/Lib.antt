pub mod Words
pub mod Items
pub mod Makes
pub mod Performed
pub mod Clicks
pub mod Chain
pub mod Live
