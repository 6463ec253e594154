pub mod Declarations
pub mod Late
pub mod Queries
pub mod Meaning
pub mod QueryPrologs
