pub mod FormLemmas
pub mod HoldLemmas
pub mod PathLemmas
