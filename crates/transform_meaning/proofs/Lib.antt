pub mod Plain
pub mod Loops
