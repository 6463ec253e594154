pub mod Stripped
pub mod Flat
