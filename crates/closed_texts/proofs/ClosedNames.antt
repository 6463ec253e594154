pub mod Written
pub mod Names
pub mod Tests
pub mod Uris
