pub mod Truths
pub mod Compared
pub mod Steps
pub mod Slashes
pub mod Names
pub mod Calls
pub mod Whole
pub mod Laws
