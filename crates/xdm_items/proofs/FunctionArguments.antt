pub mod AtomLemmas
