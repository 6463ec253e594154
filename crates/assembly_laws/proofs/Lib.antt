pub mod Rules
pub mod Functions
pub mod Globals
pub mod Levels
pub mod Lists
pub mod Parts
pub mod Modes
pub mod Spaces
