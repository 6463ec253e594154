pub mod ExtremeLemmas
pub mod SumLemmas
