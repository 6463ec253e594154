pub mod QNameLemmas
