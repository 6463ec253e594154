pub mod Made
pub mod Names
pub mod Carried
pub mod Runs
