pub mod Attributes
pub mod Runs
