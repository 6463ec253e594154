pub mod View
pub mod Pools
pub mod Opening
pub mod Frames
pub mod Fault
