pub mod InputLemmas
pub mod Loads
pub mod Results
