pub mod WrittenLemmas
pub mod AnswerLemmas
pub mod QueryPartings
