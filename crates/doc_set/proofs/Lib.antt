pub mod FetchLemmas
pub mod SetLemmas
pub mod WhiteSpace
