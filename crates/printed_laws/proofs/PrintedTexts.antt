pub mod Segments
pub mod Written
pub mod Shaped
