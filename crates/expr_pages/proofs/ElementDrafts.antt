pub mod Inner
pub mod Parted
