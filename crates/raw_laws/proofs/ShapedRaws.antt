pub mod Shaped
pub mod Parts
pub mod Elements
pub mod Cans
pub mod Forms
