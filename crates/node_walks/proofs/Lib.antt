pub mod CourseLemmas
pub mod KeptLemmas
pub mod MoveLemmas
pub mod SieveLemmas
pub mod SiftLemmas
