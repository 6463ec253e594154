pub mod QueryRaws
pub mod PrintedQueries
pub mod PrintedTexts
pub mod PrintedReads
