pub mod InForce
pub mod Links
pub mod Mentions
pub mod Modules
