pub mod NumberLemmas
pub mod PartLemmas
pub mod TemplateLemmas
pub mod SheetTexts
