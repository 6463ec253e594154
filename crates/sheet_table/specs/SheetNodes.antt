pub mod Cleaned
pub mod Parts
pub mod Pending
