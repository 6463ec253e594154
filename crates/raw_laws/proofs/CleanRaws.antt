pub mod Clean
pub mod Names
pub mod Types
pub mod Operators
pub mod Bindings
pub mod Elements
pub mod Rolled
pub mod Forms
