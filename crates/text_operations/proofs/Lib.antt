pub mod PositionLemmas
pub mod SearchLemmas
pub mod SpaceLemmas
pub mod TranslationLemmas
