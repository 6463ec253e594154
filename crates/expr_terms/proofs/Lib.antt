pub mod BuildLemmas
