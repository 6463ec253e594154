pub mod Closed
pub mod Loaded
pub mod Numbers
