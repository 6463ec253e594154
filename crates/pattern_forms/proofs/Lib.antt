pub mod FormLemmas
