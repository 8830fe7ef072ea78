pub mod Flags
pub mod Files
pub mod Refusals
pub mod Results
pub mod Numbers
pub mod Rendered
pub mod Theorems
pub mod Chains
