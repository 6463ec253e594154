pub mod Levels
pub mod Places
pub mod Whole
pub mod Standing
