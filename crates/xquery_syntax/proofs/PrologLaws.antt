pub mod ScopeLemmas
pub mod Monotone
pub mod PrologLemmas
