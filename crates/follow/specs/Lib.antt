pub mod Follow
pub mod Does
