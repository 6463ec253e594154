pub mod WantLemmas
pub mod EndLemmas
pub mod QueryHeads
pub mod QuerySteps
