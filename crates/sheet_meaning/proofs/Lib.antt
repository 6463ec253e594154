pub mod Depth
pub mod Last
pub mod Soundness
