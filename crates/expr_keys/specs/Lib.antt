pub mod Keys
pub mod TokenNames
pub mod Tokens
pub mod Classes
