pub mod ScopeLemmas
pub mod TableLemmas
