pub mod Operators
pub mod Orders
pub mod Steps
