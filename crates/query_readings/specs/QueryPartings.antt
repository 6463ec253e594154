pub mod Said
pub mod Nexts
pub mod Partings
