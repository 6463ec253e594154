pub mod Names
pub mod Nodes
pub mod Texts
pub mod Carried
