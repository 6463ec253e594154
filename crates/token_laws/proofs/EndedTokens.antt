pub mod Ends
pub mod Parts
pub mod Bindings
pub mod Elements
pub mod Forms
