pub mod Makers
pub mod Runs
pub mod Direct
