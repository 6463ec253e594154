pub mod TokenNames
pub mod Terms
pub mod Places
