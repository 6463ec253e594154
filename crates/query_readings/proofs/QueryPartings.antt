pub mod AmongLemmas
pub mod SaidLemmas
pub mod TokenLemmas
pub mod NextLemmas
pub mod PartingLemmas
