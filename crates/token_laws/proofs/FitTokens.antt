pub mod Fits
pub mod Names
pub mod Parts
pub mod Bindings
pub mod Elements
pub mod Sounds
pub mod Forms
