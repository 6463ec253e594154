pub mod Positions
pub mod Searches
pub mod Spaces
pub mod Translations
