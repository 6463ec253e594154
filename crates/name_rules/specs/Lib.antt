pub mod Broken
pub mod Faults
pub mod Layers
pub mod Scopes
