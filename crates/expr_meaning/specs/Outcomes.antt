pub mod Outcome
pub mod Follow
