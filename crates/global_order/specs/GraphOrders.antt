pub mod Checks
pub mod Needs
pub mod Behind
