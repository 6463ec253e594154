pub mod FaultLemmas
pub mod TextLemmas
pub mod BindingLemmas
