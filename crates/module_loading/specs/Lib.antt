pub mod Held
pub mod Trees
pub mod Walk
pub mod Loads
pub mod Refusals
pub mod Laws
pub mod ImportLevels
pub mod ModuleReader
