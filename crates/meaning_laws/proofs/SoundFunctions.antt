pub mod Operators
pub mod Functions
pub mod Sequences
pub mod Kept
