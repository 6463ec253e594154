pub mod StreamLemmas
pub mod Clauses
pub mod Turns
