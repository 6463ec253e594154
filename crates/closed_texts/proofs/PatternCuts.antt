pub mod Cut
pub mod Parted
pub mod Steps
