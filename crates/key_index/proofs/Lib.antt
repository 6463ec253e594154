pub mod AnswerLemmas
pub mod MergeLemmas
pub mod Tables
