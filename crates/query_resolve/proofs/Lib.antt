pub mod MeaningLemmas
pub mod QueryPrologs
