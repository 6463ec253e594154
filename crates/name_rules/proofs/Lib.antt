pub mod FaultLemmas
pub mod FormLemmas
pub mod LayerLemmas
pub mod LoopLemmas
