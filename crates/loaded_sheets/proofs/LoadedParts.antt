pub mod Readable
pub mod Made
pub mod Nodes
