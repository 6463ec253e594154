pub mod FormKinds
pub mod ListLemmas
pub mod NameLemmas
pub mod TokenLemmas
