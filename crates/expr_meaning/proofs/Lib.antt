pub mod OutcomesLemmas
pub mod SortMeaning
