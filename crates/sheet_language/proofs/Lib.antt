pub mod MeaningLemmas
pub mod TextLemmas
