pub mod CodeLemmas
pub mod PrefixLemmas
pub mod WholeLemmas
