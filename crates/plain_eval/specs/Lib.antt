pub mod Bound
pub mod Plain
