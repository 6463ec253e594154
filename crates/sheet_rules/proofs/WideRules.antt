pub mod DoubleLemmas
