pub mod Operators
pub mod Types
pub mod Bindings
