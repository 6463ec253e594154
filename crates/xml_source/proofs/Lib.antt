mod ScanLemmas
mod LineLemmas
mod NameLemmas
pub mod ReadLemmas
pub mod ReferenceReads
pub mod ReferenceLemmas
mod SpellLemmas
pub mod EqualsLemmas
mod AsideLemmas
