pub mod Prologs
pub mod Declarations
pub mod Queries
