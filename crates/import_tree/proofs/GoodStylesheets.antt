pub mod Declarations
pub mod Different
pub mod Levels
pub mod Loaded
pub mod Mentions
pub mod Modes
pub mod Singles
pub mod Tables
