pub mod PositionLemmas
pub mod TestLemmas
pub mod ValueLemmas
