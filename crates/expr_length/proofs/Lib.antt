pub mod Spare
pub mod Shallow
pub mod Within
pub mod Weights
pub mod Weighted
