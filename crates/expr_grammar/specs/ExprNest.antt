pub mod TokenNames
pub mod Terms
pub mod RawNames
pub mod Held
pub mod Measures
