pub mod Predicates
pub mod Forms
pub mod Nodes
pub mod Means
