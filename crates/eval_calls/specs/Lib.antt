pub mod Called
pub mod Reads
