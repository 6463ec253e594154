pub mod HeldLemmas
pub mod Trees
pub mod Walks
pub mod Stops
pub mod LevelLaws
pub mod ImportLevels
pub mod ModuleReader
