mod SubjectLemmas
mod JudgeLemmas
mod NameLemmas
pub mod CaseLemmas
mod CycleLemmas
mod NestLemmas
pub mod QuietPlaces
