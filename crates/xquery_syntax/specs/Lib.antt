pub mod Answers
pub mod Spelled
pub mod PrologLaws
pub mod QueryLaws
