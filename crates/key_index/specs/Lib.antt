pub mod Answers
pub mod Keys
pub mod Merges
pub mod Nodes
