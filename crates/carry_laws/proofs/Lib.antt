pub mod Orders
pub mod Places
pub mod Carry
pub mod Names
pub mod Calls
pub mod Literals
pub mod Whole
