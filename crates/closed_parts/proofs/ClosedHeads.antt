pub mod Nodes
pub mod Values
pub mod Sorts
pub mod Heads
pub mod Bounds
