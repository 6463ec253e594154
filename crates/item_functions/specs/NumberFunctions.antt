pub mod Extremes
pub mod Sums
