pub mod Pushed
pub mod Turns
pub mod ExprPlaces
pub mod NamePrefixes
pub mod NameTokens
