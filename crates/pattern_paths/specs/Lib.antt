pub mod Upwards
pub mod Predicates
pub mod Matching
pub mod Built
pub mod Properties
