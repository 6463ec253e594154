pub mod Forms
pub mod Heads
pub mod Required
pub mod Bounds
pub mod Turns
pub mod Passed
pub mod Walk
