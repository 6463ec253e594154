pub mod Says
pub mod Paths
pub mod Operators
pub mod Bindings
pub mod Runs
pub mod Elements
pub mod Forms
