pub mod Keys
pub mod Swaps
pub mod Asked
pub mod Stands
pub mod Closed
