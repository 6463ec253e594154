pub mod CallLemmas
pub mod GlobalLemmas
pub mod ParamLemmas
pub mod RunLemmas
pub mod TableLemmas
