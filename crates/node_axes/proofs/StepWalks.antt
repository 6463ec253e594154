pub mod HitLemmas
pub mod OrderLemmas
pub mod SiftLemmas
pub mod NodeLemmas
