pub mod Within
pub mod Paths
pub mod Operators
pub mod Bindings
pub mod Elements
pub mod Wider
pub mod Rolled
pub mod Forms
