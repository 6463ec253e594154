pub mod Chains
pub mod Types
pub mod Conditionals
pub mod Bindings
