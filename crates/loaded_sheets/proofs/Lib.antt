pub mod Ranges
pub mod Globals
pub mod WideLemmas
pub mod LoadedParts
