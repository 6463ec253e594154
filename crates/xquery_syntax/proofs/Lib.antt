pub mod AnswerLemmas
pub mod ParsedLemmas
pub mod PrologLaws
pub mod QueryLaws
