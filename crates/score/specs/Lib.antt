pub mod Run
pub mod Played
pub mod Listed
pub mod Reached
pub mod Ends
pub mod Opened
