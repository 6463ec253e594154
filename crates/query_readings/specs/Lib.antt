pub mod Readings
pub mod QueryPartings
