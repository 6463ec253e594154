pub mod CanLemmas
pub mod DeclarationEnds
pub mod Params
