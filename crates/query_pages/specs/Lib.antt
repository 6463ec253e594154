pub mod Gaps
pub mod Inner
pub mod Laid
pub mod Placed
pub mod Nexts
pub mod TokenTexts
pub mod TokenWriter
