pub mod Prologs
pub mod Spells
pub mod TestLemmas
pub mod TokenLemmas
pub mod PrologDrafts
pub mod PrintableQueries
