pub mod Setters
pub mod Prefixes
