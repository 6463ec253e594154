pub mod Meets
pub mod Depth
