pub mod KeyLemmas
pub mod NumberLemmas
pub mod QuoteLemmas
pub mod TermLemmas
pub mod TextTokens
