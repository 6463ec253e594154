pub mod Climb
pub mod Spelled
pub mod Paths
pub mod Operators
pub mod Types
pub mod Bindings
pub mod Elements
pub mod Forms
