pub mod SuitLemmas
pub mod OrderLemmas
pub mod StandingLemmas
pub mod BodyLemmas
pub mod OneLemmas
