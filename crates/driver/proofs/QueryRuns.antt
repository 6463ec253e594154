pub mod QueryLemmas
pub mod SetLemmas
