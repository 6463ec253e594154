pub mod TextLemmas
pub mod Counted
pub mod Kept
pub mod Turns
