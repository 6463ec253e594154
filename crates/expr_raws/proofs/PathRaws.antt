pub mod Values
pub mod Paths
