pub mod View
pub mod Counts
pub mod Outline
pub mod Answers
pub mod TokenNames
pub mod Terms
pub mod RawNames
pub mod Tracks
