pub mod Bindings
pub mod Documents
