pub mod Written
pub mod ExprPlaces
pub mod NamePrefixes
pub mod NameTokens
