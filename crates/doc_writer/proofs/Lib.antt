pub mod EscapeLemmas
pub mod HeadLemmas
pub mod PlainLemmas
pub mod RunLemmas
pub mod UsedLemmas
pub mod WrittenLemmas
