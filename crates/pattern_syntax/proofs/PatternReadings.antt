pub mod WholeLemmas
pub mod ReadingLemmas
