pub mod Numbers
pub mod Passed
pub mod Returned
pub mod Tests
pub mod Ranges
