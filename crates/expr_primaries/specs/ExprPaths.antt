pub mod Steps
pub mod Paths
pub mod Primaries
pub mod Table
