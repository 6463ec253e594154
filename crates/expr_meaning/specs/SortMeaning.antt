pub mod Sorted
pub mod Related
