pub mod GapEnds
pub mod TokenEnds
pub mod LexedLemmas
