pub mod ContentLemmas
pub mod Follow
pub mod Measure
pub mod TableLemmas
