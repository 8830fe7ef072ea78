pub mod Turns
pub mod Putting
pub mod Tail
pub mod Opens
pub mod Taking
pub mod Walking
pub mod Starting
pub mod Answering
