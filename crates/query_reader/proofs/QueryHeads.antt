pub mod TypeLemmas
pub mod SliceLemmas
