pub mod Carrier
pub mod Depth
pub mod Ended
